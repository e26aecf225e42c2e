pub mod Nothing
pub mod Fourteen
pub mod Claims
