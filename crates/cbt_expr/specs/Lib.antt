pub mod Forms
pub mod Values
pub mod Answers
pub mod Literals
