pub mod Pair
pub mod Text
pub mod Meaning
pub mod Whole
pub mod Figures
