pub mod Tidy
pub mod Twice
