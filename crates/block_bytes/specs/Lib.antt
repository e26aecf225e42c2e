pub mod Blocks
pub mod Lemmas
pub mod KnownAnswers
