pub mod Complete
pub mod ReadInTurn
