pub mod Pages
pub mod Keyed
pub mod KnownAnswers
