pub mod Checked
pub mod Exactness
pub mod Walks
pub mod Wider
