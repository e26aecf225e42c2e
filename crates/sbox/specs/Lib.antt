pub mod Sbox
pub mod ForProver
pub mod Published
pub mod Claims
