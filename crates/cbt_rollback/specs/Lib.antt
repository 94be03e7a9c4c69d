pub mod Commits
pub mod Phases
pub mod Ready
pub mod Standing
