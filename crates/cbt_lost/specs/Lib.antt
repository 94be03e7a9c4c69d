pub mod Gone
pub mod Tours
pub mod Rounds
pub mod Cleaning
