pub mod RomCall
pub mod Phase
pub mod Rom
