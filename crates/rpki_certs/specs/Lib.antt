pub mod Cert
pub mod Inspect
pub mod Verify
pub mod Validate
pub mod Issuer
