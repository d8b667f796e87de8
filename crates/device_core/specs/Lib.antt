-- What public clauses speak of.
pub mod Device
pub mod Step
pub mod Silence
pub mod KeptCounter
-- What the parts within stand for, and how they make a step.
pub mod Bus
pub mod Calm
pub mod FlagsKept
pub mod Machine
pub mod Quiet
pub mod Sleep
pub mod Turn
