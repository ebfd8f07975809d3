pub mod AsciiBlock
pub mod Answer
pub mod Vectors
