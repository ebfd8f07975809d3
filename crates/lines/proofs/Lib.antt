pub mod Writing
pub mod Reading
pub mod Written
pub mod Counts
pub mod Kept
pub mod Current
pub mod Joining
