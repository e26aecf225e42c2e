pub mod WalkCall
pub mod KnownAnswers
