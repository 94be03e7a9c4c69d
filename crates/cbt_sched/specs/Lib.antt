pub mod Driving
pub mod Positions
pub mod Stopping
pub mod Turns
