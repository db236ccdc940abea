pub mod Builds
pub mod Multis
pub mod Signers
