pub mod Put
pub mod Codes
pub mod Runs
