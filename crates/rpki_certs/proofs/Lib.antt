pub mod Certs
pub mod Steps
pub mod Valid
pub mod Checking
pub mod Following
