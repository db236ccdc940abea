pub mod Apart
pub mod Applied
pub mod Counted
pub mod Elements
pub mod Formatted
pub mod Gathered
pub mod Joined
pub mod Limited
pub mod Named
pub mod Once
pub mod Recorded
pub mod Rowed
pub mod Saying
pub mod Spaced
pub mod Spoken
pub mod Tabled
pub mod Written
mod Locating
mod Reporting
