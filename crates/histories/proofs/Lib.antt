pub mod Calls
pub mod Counts
pub mod Demoted
pub mod Claims
