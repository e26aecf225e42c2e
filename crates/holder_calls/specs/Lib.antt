pub mod HolderCalls
pub mod KnownAnswers
