pub mod RollCalls
