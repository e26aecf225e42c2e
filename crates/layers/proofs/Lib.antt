pub mod Columns
pub mod Layers
pub mod Claims
pub mod Lemmas
