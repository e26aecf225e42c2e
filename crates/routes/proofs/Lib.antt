pub mod Ring
pub mod At
pub mod Held
pub mod Routes
pub mod Claims
