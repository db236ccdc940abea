pub mod Shortening
