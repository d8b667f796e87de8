pub mod AttestedBytes
pub mod Coverage
pub mod Example
