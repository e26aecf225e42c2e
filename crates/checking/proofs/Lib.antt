pub mod KnownAnswers
pub mod Parts
