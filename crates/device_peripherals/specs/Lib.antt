pub mod Register
pub mod Pins
pub mod Timer
pub mod Order
pub mod Serial
pub mod Dma
pub mod Distance
