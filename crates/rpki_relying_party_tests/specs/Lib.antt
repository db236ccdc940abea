pub mod Numbers
pub mod Files
