pub mod QuietStep
pub mod UnclearedStarts
