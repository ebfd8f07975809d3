pub mod Open
pub mod Parts
pub mod Questions
pub mod Steps
