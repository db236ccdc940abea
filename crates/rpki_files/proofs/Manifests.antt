-- Manifests.
pub mod Exact
pub mod Written
pub mod Named
pub mod Distinct
pub mod Meaning
pub mod Taken
pub mod Built
pub mod Signed
pub mod Known
