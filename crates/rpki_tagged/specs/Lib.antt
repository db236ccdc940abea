pub mod Attestation
pub mod Built
pub mod Lent
