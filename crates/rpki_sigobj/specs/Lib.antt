pub mod Object
pub mod Process
pub mod Signed
pub mod SignerInfo
pub mod Validate
pub mod Verify
