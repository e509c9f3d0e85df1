pub mod Written
pub mod Head
pub mod Sizes
