pub mod formers
pub mod Keyed
pub mod Lent
pub mod MapLent
pub mod Ids
pub mod Clock
