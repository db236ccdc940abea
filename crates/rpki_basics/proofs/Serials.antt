-- Serial numbers.
pub mod Order
pub mod Unique
pub mod Written
