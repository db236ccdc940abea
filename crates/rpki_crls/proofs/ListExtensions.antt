-- The extensions of a revocation list.
pub mod Exact
