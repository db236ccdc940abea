-- Names.
pub mod Exact
pub mod Unique
pub mod Written
