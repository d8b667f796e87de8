pub mod Copies
pub mod Passing
pub mod Stretch
pub mod Walk
