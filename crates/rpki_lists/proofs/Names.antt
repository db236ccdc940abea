-- Which numbers a content names.
pub mod Exact
pub mod Facts
pub mod Written
