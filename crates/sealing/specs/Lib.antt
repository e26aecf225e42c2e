pub mod Sealing
pub mod ForProver
