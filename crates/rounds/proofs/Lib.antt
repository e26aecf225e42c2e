pub mod Turned
pub mod Restored
pub mod Claims
pub mod Lemmas
