pub mod ListRounds
