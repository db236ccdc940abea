pub mod Lengths
pub mod Bits
pub mod Writing
