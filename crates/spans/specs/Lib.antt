pub mod Span
pub mod Body
pub mod Counted
pub mod Plain
pub mod Line
pub mod Steps
