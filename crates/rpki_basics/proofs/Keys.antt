-- Keys.
pub mod Identifiers
pub mod Parts
pub mod Written
