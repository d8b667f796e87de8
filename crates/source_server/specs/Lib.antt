pub mod HeldLine
pub mod LineCut
pub mod Lines
pub mod Responder
pub mod Serving
pub mod Taken
