-- The third law: answers are right, and refusals have their causes.
pub mod Readings
pub mod RightAnswers
pub mod Contended
pub mod Moved
pub mod Blocked
