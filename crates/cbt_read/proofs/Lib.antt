pub mod Knowing
pub mod Counting
pub mod Stands
