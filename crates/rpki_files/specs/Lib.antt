pub mod Name
pub mod Manifest
pub mod Checklist
