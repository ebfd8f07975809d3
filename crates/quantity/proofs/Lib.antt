pub mod Capped
pub mod Search
pub mod Shifts
pub mod Texts
pub mod Values
pub mod Meaning
