pub mod Outcome
pub mod Refusals
pub mod Short
pub mod Asked
pub mod Steps
