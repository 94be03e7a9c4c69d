pub mod Lists
pub mod Spans
pub mod Grown
pub mod Snoc
pub mod Closed
