-- URIs.
pub mod Tests
pub mod Exact
