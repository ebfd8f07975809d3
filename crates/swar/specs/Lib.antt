pub mod Number
pub mod Lanes
pub mod Marks
