pub mod KeyLists
pub mod Claims
pub mod ForProver
pub mod KnownAnswers
