pub mod Computed
pub mod Addition
pub mod Linear
pub mod Multiplication
pub mod Claims
pub mod Lemmas
pub mod Constants
