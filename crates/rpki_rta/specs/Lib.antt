pub mod Carried
pub mod Granted
pub mod Faults
pub mod Begun
pub mod Handles
pub mod Refused
pub mod Laws
