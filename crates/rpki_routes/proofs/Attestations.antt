pub mod Built
pub mod Claims
pub mod Exact
pub mod Meaning
pub mod Providers
pub mod Signed
pub mod Written
