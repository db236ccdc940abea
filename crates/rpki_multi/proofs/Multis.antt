-- Multi-signed objects.
pub mod Exact
pub mod Fronts
pub mod Items
pub mod Kept
pub mod Written
