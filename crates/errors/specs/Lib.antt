pub mod Layout
pub mod Errors
pub mod Answers
pub mod Numbers
pub mod Faults
pub mod Numbered
