pub mod Roll
pub mod KnownAnswers
