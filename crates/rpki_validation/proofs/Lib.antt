mod Counting
pub mod Decided
pub mod Grounded
mod Naming
mod Refused
pub mod Single
pub mod Steps
