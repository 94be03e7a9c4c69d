pub mod Copying
pub mod Moving
pub mod Bounds
pub mod OwnCalls
pub mod Knowing
pub mod ClosingCalls
pub mod Licensing
