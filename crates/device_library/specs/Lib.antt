pub mod Call
pub mod KeptText
pub mod Shown
