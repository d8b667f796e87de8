pub mod Noted
pub mod Places
