pub mod Noted
pub mod OwnWrites
pub mod Notes
