pub mod HexRecord
pub mod HexImage
pub mod HexText
pub mod MemoryImage
pub mod ReadBack
