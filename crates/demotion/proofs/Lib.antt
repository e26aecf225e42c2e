pub mod Demoted
pub mod Claims
