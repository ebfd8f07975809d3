pub mod Scans
pub mod Digits
