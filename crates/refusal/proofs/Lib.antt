pub mod Reasons
pub mod Tries
pub mod Answers
pub mod Ladder
pub mod Given
pub mod Claims
