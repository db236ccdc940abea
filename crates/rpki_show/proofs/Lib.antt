pub mod Carried
pub mod Dates
pub mod Grown
pub mod Lists
pub mod Located
pub mod Printed
pub mod Serials
pub mod Shown
