pub mod Words
pub mod Claims
