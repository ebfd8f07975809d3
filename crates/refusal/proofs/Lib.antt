pub mod InNumbers
pub mod Lengths
pub mod Numbers
pub mod Outcomes
