pub mod Longest
pub mod Steps
