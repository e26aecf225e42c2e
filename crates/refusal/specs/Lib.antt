pub mod Reasons
pub mod Tries
pub mod Required
pub mod Claims
