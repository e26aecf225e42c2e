pub mod Checking
pub mod KnownAnswers
