pub mod SubkeyCall
