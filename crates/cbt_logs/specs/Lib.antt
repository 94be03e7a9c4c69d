pub mod Operating
pub mod Closing
pub mod Trying
pub mod Running
