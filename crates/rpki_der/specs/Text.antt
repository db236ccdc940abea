pub mod Hex
pub mod Arcs
pub mod Error
