pub mod Attestation
pub mod Built
pub mod Lent
pub mod Multi
pub mod Signer
pub mod Written
