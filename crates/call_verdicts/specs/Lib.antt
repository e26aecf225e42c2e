pub mod CallDecisions
