pub mod Moves
pub mod Works
pub mod Moving
pub mod Bounds
pub mod Ends
pub mod Closes
pub mod Licensed
