pub mod Hits
pub mod Cuts
pub mod Decoded
pub mod Between
pub mod Scans
pub mod Stretches
pub mod Views
