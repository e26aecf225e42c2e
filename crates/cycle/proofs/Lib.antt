pub mod Numbers
pub mod Around
pub mod Agree
pub mod Claims
