pub mod StatementText
pub mod Writable
pub mod ReadBack
pub mod Listing
pub mod Example
