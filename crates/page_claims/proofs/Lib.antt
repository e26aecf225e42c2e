pub mod Restored
pub mod Settings
pub mod Pages
pub mod Codes
pub mod Claims
