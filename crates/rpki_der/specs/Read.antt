pub mod State
pub mod Parse
pub mod Exact
pub mod Reads
