pub mod Checks
pub mod Text
pub mod Validated
