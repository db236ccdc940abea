pub mod Crl
pub mod Entry
pub mod Extensions
