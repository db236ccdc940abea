pub mod CertExtensions
pub mod GeneralNames
pub mod Resources
pub mod Uris
pub mod Values
