pub mod Areas
pub mod Texts
pub mod Spellings
pub mod Values
pub mod Raw
