pub mod Revoked
pub mod ListExtensions
pub mod Written
pub mod Issued
