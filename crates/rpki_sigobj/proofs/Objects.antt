-- Signed objects.
pub mod Exact
pub mod Kept
pub mod Types
