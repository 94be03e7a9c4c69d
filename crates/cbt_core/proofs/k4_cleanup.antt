-- The fourth law: what has ended leaves nothing.
pub mod Passed
pub mod Ended
pub mod Evicted
