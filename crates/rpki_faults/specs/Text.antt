pub mod Inspection
pub mod Verification
pub mod Fault
pub mod Validation
