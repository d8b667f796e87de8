pub mod Behind
pub mod Cuts
pub mod TokenSteps
pub mod NumberSteps
pub mod FirstFault
