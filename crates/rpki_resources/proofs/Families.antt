pub mod ByFamily
pub mod Exact
pub mod Gathered
pub mod Writing
