-- Times.
pub mod Exact
pub mod Order
pub mod Read
pub mod Written
