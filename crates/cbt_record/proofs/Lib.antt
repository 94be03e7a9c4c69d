pub mod Others
pub mod Owners
