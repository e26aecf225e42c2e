pub mod Rights
pub mod KnownAnswers
