pub mod Lanes
pub mod OneByte
pub mod Doubling
pub mod Claims
