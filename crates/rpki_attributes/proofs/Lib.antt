pub mod Attributes
pub mod Lists
pub mod Signing
