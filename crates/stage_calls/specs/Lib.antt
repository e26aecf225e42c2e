pub mod StageCalls
