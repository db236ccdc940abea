pub mod Addresses
pub mod AsNumbers
pub mod Claims
pub mod Families
pub mod Prefixes
pub mod Readings
pub mod Sets
pub mod Texts
