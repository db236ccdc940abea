-- Attestations.
pub mod Built
pub mod Exact
pub mod Written
