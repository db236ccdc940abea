pub mod Taken
pub mod Pieces
pub mod Lines
pub mod Lengths
pub mod Numbers
pub mod Leaves
pub mod Values
pub mod Strings
