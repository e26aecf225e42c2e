pub mod Tests
pub mod Bytes
pub mod Cases
