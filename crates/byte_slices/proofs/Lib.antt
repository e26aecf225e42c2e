pub mod Zeros
pub mod Equal
pub mod Cases
