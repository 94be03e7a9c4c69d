-- The fifth law: no update is lost.
pub mod Updates
