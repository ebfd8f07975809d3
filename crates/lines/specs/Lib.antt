pub mod Starts
pub mod Current
pub mod LineLaw
pub mod Joined
