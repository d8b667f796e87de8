pub mod ValidBounds
pub mod WordsPassed
pub mod Decisions
pub mod Accesses
pub mod Steps
