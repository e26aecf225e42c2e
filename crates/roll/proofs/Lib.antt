pub mod Contractors
pub mod Entries
pub mod KnownAnswers
