pub mod Ahead
pub mod Going
pub mod Session
pub mod Telling
