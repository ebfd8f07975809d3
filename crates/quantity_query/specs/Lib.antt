pub mod Given
pub mod Number
