pub mod Ranges
pub mod Table
pub mod Tags
