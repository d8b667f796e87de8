pub mod MemFiles
