pub mod ReadBack
pub mod Alone
pub mod Lined
