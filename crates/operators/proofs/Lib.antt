pub mod Leading
pub mod Rows
pub mod Bounds
