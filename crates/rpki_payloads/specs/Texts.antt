-- The texts of prefixes and of refusals.
pub mod Origin
pub mod Refusals
