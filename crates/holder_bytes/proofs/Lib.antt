pub mod Lent
pub mod KnownAnswers
