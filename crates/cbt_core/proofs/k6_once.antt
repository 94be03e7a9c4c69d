-- The sixth law: a transaction commits at most once.
pub mod Once
