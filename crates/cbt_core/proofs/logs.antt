-- What logs that follow their plans tell of the calls of their actors.
pub mod Calls
pub mod Find
pub mod Noted
pub mod Index
pub mod Owners
pub mod Commits
pub mod Before
