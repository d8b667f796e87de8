pub mod Moments
pub mod Moves
pub mod Grows
pub mod Reports
