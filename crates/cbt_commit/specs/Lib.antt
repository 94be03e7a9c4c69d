pub mod Written
pub mod Phases
pub mod Ends
pub mod Ready
pub mod Standing
