pub mod Histories
pub mod Claims
