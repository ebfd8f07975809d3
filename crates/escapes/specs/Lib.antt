pub mod Answers
pub mod EscapeDigits
pub mod Escape
pub mod Steps
