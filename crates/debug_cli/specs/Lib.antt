pub mod Session
pub mod Status
