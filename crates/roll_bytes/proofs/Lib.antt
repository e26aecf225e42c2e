pub mod Pairs
pub mod Entries
pub mod Claims
pub mod KnownAnswers
