pub mod Driven
pub mod Stopped
pub mod Ordered
pub mod Promises
