-- The extensions of a certificate.
pub mod Exact
pub mod Seen
