pub mod Names
pub mod Versions
pub mod Manifests
pub mod Checklists
