pub mod Bytes
pub mod Checks
pub mod Issued
pub mod Looks
pub mod Others
pub mod Claims
