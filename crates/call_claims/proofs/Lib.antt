pub mod Codes
pub mod Opens
pub mod Stored
pub mod Claims
