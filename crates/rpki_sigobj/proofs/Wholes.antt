-- Signed objects with their contents.
pub mod After
pub mod Asking
pub mod Fronts
pub mod Goodness
pub mod InBer
pub mod Numbers
