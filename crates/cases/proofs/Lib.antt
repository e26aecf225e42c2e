pub mod Cases
pub mod KnownAnswers
