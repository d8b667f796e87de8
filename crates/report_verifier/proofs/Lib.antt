pub mod CodeBytes
pub mod PairBytes
pub mod Pairs
pub mod Acceptance
pub mod PolicyBounds
pub mod Regions
pub mod Pushes
