-- Checklists.
pub mod Exact
pub mod Meaning
pub mod Named
pub mod Written
pub mod Known
