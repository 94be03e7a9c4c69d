pub mod Agreeing
pub mod Staying
