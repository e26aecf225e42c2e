pub mod Restored
pub mod Bytes
pub mod Claims
