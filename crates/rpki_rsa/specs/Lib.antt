pub mod KeyParts
pub mod Limbs
pub mod Sample
pub mod Signature
