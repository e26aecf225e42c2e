pub mod Answers
pub mod Passed
pub mod KnownAnswers
