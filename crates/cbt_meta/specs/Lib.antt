pub mod Stagings
pub mod StagingsRead
