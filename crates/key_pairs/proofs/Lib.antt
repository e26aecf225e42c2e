pub mod Pairs
pub mod KnownAnswers
