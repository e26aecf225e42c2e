pub mod HolderRoutes
pub mod Claims
