-- Algorithms.
pub mod Parts
pub mod Unique
pub mod Written
