pub mod Written
pub mod Valid
pub mod Answered
pub mod Contents
