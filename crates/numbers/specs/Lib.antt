pub mod Run
pub mod Number
pub mod Spelling
pub mod Steps
