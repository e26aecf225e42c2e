pub mod Calls
pub mod KnownAnswers
