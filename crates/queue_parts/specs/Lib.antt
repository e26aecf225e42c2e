pub mod QueueParts
pub mod ForProver
pub mod KnownAnswers
