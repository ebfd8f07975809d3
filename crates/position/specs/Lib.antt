pub mod Lines
pub mod Place
pub mod Queries
pub mod Adding
