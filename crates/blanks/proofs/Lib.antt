pub mod Blanks
pub mod Lengths
