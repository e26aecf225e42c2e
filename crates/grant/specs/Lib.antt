pub mod Grants
pub mod KnownAnswers
