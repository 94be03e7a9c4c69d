-- The interleaving invariant, and the first law, which it holds.
pub mod Answers
pub mod Entries
pub mod Decisions
pub mod Documents
pub mod Worth
pub mod Held
pub mod Listed
pub mod Gone
pub mod Stamps
pub mod Interleaving
