pub mod Walks
pub mod KnownAnswers
