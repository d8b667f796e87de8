pub mod Keeps
pub mod Regions
pub mod Entries
pub mod InterruptEntries
pub mod Runs
pub mod Plays
