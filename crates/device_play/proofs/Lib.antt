pub mod GoesOn
pub mod SeenStep
pub mod TracedStep
pub mod WaveStep
pub mod WatchedPlay
pub mod WriteCounts
