pub mod Table
pub mod Chars
pub mod Bytes
pub mod Steps
pub mod Count
