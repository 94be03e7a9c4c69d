pub mod Draws
pub mod Names
pub mod Accounts
pub mod Transfers
pub mod Generated
