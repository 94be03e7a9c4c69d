pub mod Readings
pub mod Fields
pub mod Objects
pub mod Names
pub mod Numbers
pub mod Forms
pub mod Levels
