pub mod Parts
pub mod Inner
pub mod Back
pub mod Only
