pub mod OpenReads
pub mod Phases
pub mod Standing
