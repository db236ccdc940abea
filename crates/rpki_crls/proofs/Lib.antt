pub mod Crls
pub mod ListExtensions
