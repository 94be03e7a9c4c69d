pub mod Fresh
pub mod ReadThenStage
pub mod Written
