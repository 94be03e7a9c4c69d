pub mod Counted
pub mod Calls
