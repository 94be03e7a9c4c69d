-- What the laws are given of a history, and the words on own lists as its places.
pub mod Past
pub mod Lawful
pub mod FreshOpenings
pub mod Complete
