pub mod Refusals
pub mod Contents
pub mod Rules
pub mod Calls
