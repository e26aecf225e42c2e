pub mod Lengths
pub mod KnownAnswers
