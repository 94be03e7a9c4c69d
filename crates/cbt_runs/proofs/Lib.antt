pub mod Numbering
pub mod Running
pub mod Sweeping
