pub mod ValueSum
pub mod Lists
pub mod OperandWords
pub mod InstructionWords
pub mod StatementSize
pub mod LinesSoFar
pub mod SecondPassMore
pub mod HasBytes
