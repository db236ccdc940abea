pub mod Attribute
pub mod Attrs
pub mod Signing
pub mod Text
