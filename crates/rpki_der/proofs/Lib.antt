pub mod Reading
pub mod Text
pub mod Writing
pub mod Form
pub mod Seen
