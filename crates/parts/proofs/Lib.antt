pub mod Gets
pub mod ReadBack
