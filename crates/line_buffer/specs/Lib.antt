pub mod LineLaw
