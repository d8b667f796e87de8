pub mod Image
pub mod ImagePlace
pub mod Memory
pub mod Span
