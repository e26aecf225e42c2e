pub mod KnownAnswers
