pub mod Cipher
pub mod ForProver
pub mod Claims
