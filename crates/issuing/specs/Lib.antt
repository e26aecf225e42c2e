pub mod Issuing
pub mod ForProver
pub mod KnownAnswers
