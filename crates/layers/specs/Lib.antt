pub mod State
pub mod Layers
pub mod Claims
pub mod Lemmas
