pub mod Asks
pub mod Describe
