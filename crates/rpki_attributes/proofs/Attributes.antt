-- A signed attribute.
pub mod Exact
