pub mod KeyPairs
pub mod KnownAnswers
