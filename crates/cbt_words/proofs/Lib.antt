pub mod Rules
pub mod Reading
pub mod Walking
pub mod Agreeing
pub mod Taken
pub mod HistoryTaken
pub mod GenTaken
pub mod Ranges
