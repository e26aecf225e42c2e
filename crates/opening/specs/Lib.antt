pub mod Opening
pub mod ForProver
