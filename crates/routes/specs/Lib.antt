pub mod Routes
pub mod Claims
