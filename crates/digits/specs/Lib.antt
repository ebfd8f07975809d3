pub mod Digit
pub mod Base
