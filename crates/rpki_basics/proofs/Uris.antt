-- URIs.
pub mod Segments
pub mod Tests
pub mod Octets
pub mod Refused
