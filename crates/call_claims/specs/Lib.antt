pub mod CallHistories
pub mod Claims
