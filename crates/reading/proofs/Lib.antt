pub mod Step
pub mod Runs
pub mod Ending
pub mod Join
pub mod Progress
pub mod Scanner
