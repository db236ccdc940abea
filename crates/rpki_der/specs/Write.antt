pub mod Written
pub mod Encode
pub mod Parts
pub mod Sink
