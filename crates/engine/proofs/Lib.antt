pub mod Blocks
pub mod Claims
