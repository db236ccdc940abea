-- The lines of each kind of content.
pub mod Aspa
pub mod Blocks
pub mod Certificate
pub mod Crl
pub mod Manifest
pub mod Named
pub mod Object
pub mod Roa
pub mod Rsc
pub mod Rta
pub mod Serial
pub mod Tal
