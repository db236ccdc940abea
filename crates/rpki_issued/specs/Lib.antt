pub mod Values
pub mod Extensions
pub mod Signing
pub mod Written
pub mod Resources
pub mod Tbs
