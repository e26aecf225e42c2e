pub mod ForProver
