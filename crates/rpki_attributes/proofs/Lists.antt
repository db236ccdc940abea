-- Signed attributes.
pub mod Exact
pub mod Written
pub mod Sorted
