pub mod HolderBytes
pub mod ForProver
pub mod KnownAnswers
