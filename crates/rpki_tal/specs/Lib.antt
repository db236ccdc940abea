pub mod Lines
pub mod Uri
pub mod Form
pub mod Faults
pub mod Tal
pub mod Read
