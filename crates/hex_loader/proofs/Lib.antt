pub mod ImageBytes
pub mod ReadLines
pub mod Runs
pub mod WritePieces
