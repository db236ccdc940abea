-- Times.
pub mod Form
pub mod Read
