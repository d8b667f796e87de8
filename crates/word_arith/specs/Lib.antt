pub mod Number
pub mod Flags
pub mod Sum
pub mod Decimal
pub mod Op2
pub mod Op1
pub mod SignedNumber
