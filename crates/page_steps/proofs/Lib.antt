pub mod Placed
pub mod Made
