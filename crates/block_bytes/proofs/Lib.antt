pub mod Put
pub mod Blockwise
pub mod Lists
pub mod RoundTrip
pub mod Lemmas
pub mod KnownAnswers
