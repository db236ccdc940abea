-- General names.
pub mod Exact
