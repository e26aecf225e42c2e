pub mod Chaining
pub mod Claims
pub mod ForProver
