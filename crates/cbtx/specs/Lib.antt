pub mod Adding
pub mod Cases
pub mod Commands
pub mod Crew
pub mod Headline
pub mod Statuses
pub mod Told
