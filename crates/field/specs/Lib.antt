pub mod Field
pub mod Claims
pub mod Lemmas
