pub mod OpenCall
