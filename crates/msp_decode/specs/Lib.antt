pub mod Table
pub mod Spelling
pub mod Field
pub mod Head
pub mod Completion
pub mod FollowingWords
pub mod EncodeFault
pub mod Law
