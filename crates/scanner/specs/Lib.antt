pub mod Scan
pub mod TableLaw
pub mod Steps
pub mod Quick
