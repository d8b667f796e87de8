mod Asking
pub mod FirstStep
mod Places
mod QuietPlaces
mod QuietWalks
pub mod ShownBytes
pub mod StretchSteps
mod TellsSteps
pub mod Views
