pub mod HeldSums
pub mod NextLines
pub mod Parts
pub mod Replays
