pub mod Trees
pub mod Attributes
pub mod Rules
pub mod Fit
pub mod Tokens
pub mod Reading
pub mod Same
