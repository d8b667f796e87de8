pub mod Example
pub mod Freshness
