pub mod Walk
pub mod KnownAnswers
