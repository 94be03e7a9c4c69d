-- The second law: documents resolve to the committed table.
pub mod Counting
pub mod Views
pub mod Tables
pub mod OwnWrites
