pub mod Judging
pub mod KnownAnswers
