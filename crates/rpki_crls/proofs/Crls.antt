-- Revocation lists.
pub mod Exact
pub mod Kept
