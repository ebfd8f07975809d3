pub mod Calls
pub mod Progress
pub mod Joined
pub mod Table
pub mod Errors
pub mod Lines
