pub mod RunFlag
pub mod UnclearedStart
