pub mod DebuggerSecrecy
pub mod EarlyEnd
pub mod FirstStop
pub mod ShownPlay
pub mod StepBack
pub mod LivingSecrecy
