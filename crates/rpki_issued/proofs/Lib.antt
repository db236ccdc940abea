pub mod Parts
pub mod Values
pub mod CertExtensions
pub mod Written
pub mod Lengths
pub mod Joined
pub mod Issued
