pub mod Byte
pub mod Ticks
