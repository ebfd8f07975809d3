pub mod Word
pub mod Marks
pub mod Near
