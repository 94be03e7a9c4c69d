pub mod Entries
pub mod EntriesRead
