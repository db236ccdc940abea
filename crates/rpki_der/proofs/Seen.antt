pub mod Twice
pub mod Walks
