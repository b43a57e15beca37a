pub mod Built
pub mod OneAnswer
