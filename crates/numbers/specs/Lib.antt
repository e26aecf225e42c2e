pub mod Numbers
pub mod KnownAnswers
