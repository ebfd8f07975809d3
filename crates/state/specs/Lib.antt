pub mod State
pub mod Fits
pub mod Layout
