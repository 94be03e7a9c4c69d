pub mod Many
pub mod Padded
pub mod NameRules
pub mod Bodies
pub mod AccountRules
pub mod TransferRules
pub mod ClientRules
pub mod ScriptRules
