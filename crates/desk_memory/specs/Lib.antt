pub mod AnswerReader
pub mod DeviceState
pub mod Entry
pub mod Kept
pub mod KeyMark
pub mod Law
pub mod NoMemory
pub mod Moving
