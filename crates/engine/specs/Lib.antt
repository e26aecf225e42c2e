pub mod Engine
pub mod Claims
