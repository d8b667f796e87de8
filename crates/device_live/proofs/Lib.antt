pub mod ToldPlay
pub mod Lives
pub mod Alive
pub mod ToCome
pub mod Answered
pub mod Played
pub mod Told
