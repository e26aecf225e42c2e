pub mod RollBytes
pub mod ForProver
pub mod Claims
pub mod KnownAnswers
