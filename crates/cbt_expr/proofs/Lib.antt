pub mod Views
pub mod Faults
pub mod Sums
pub mod Bodies
pub mod Literals
