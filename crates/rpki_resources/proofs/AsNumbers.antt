pub mod Exact
pub mod Names
pub mod Writing
