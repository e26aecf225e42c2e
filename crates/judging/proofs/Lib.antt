pub mod Verdicts
pub mod Passed
pub mod KnownAnswers
