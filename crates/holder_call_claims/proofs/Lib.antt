pub mod Lent
pub mod Places
pub mod Routes
pub mod Codes
pub mod Claims
