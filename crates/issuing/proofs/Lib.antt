pub mod Passed
pub mod KnownAnswers
