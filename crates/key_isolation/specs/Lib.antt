pub mod AttestedPlay
pub mod Example
pub mod Keyless
pub mod Openness
