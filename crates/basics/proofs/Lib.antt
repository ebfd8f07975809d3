pub mod Choice
pub mod Tests
pub mod Every
pub mod Lists
pub mod Sets
