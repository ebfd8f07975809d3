pub mod Plain
pub mod Body
pub mod Steps
pub mod Literal
