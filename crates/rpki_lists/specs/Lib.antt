pub mod Built
pub mod Slice
pub mod Entries
pub mod Named
pub mod Rules
pub mod Text
pub mod Version
