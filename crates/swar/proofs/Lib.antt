pub mod Numbers
pub mod Each
pub mod Trailing
pub mod Marks
pub mod Runs
