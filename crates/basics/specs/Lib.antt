pub mod Between
pub mod Spelling
pub mod Same
