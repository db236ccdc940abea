pub mod Parts
pub mod Law
pub mod Made
pub mod Decodes
pub mod After
pub mod Keyed
