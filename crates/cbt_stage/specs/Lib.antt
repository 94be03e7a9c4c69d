pub mod OpenPuts
pub mod Phases
pub mod PutCalls
pub mod Ready
pub mod Rewrites
pub mod Rewriting
pub mod Standing
pub mod Tasks
