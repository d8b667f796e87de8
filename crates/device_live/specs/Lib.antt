-- What is said to a device that lives, and what it answers.
pub mod LiveLine
pub mod Life
pub mod Answer
pub mod Conversation
pub mod Laws
-- A device as the code has it, and how it is served.
pub mod Faults
pub mod Living
pub mod LineResponder
