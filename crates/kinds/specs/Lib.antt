pub mod Kinds
pub mod Table
pub mod Precedence
pub mod Number
