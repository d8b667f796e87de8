pub mod Console
pub mod Conversation
pub mod HeldBody
pub mod Link
pub mod Packet
pub mod Reading
pub mod Serving
pub mod Writing
