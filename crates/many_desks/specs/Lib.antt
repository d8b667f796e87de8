pub mod Act
pub mod Counters
pub mod Keys
pub mod Law
pub mod Moves
pub mod Possible
