pub mod Cycle
pub mod Claims
