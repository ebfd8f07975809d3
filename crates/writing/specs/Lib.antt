pub mod Written
pub mod Writes
pub mod Text
pub mod Spelled
