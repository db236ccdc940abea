pub mod Attested
pub mod Check
pub mod Exact
pub mod Headline
pub mod Text
pub mod Walk
pub mod Wider
