pub mod CommandLine
pub mod FileKind
pub mod Program
pub mod Reading
pub mod Row
pub mod Status
