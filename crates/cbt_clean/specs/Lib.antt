pub mod Staging
pub mod Phases
pub mod Ready
pub mod Standing
