pub mod Keys
pub mod Filled
pub mod Filling
pub mod Turned
