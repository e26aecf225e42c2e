pub mod Tests
pub mod KnownAnswers
