pub mod KindOf
pub mod Many
pub mod Near
pub mod Simple
pub mod Run
