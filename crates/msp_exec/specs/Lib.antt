pub mod Order
pub mod TwoOperands
pub mod Course
