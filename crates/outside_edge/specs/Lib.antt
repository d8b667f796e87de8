pub mod Buffer
pub mod Calls
pub mod File
pub mod Shelf
pub mod Sink
pub mod Source
