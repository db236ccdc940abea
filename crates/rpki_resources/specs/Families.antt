-- What stands for each address family.
pub mod Form
pub mod Read
