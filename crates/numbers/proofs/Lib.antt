pub mod Laws
pub mod KnownAnswers
