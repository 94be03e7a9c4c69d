pub mod Walks
pub mod SoundEntries
pub mod Back
pub mod Only
