pub mod Columns
pub mod Stages
pub mod Claims
pub mod Lemmas
pub mod KnownAnswers
