pub mod Options
pub mod Parsers
pub mod Commands
