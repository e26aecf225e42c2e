pub mod SizeBlocks
pub mod KnownAnswers
