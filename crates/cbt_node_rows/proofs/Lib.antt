pub mod Stagers
