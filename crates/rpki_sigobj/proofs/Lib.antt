pub mod Asked
pub mod Objects
pub mod Valid
pub mod Wholes
pub mod ReadAgain
