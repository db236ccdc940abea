-- Names.
pub mod Decided
pub mod Ia5
pub mod Joined
