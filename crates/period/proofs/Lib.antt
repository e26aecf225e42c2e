pub mod Home
pub mod Before
pub mod Every
pub mod Claims
