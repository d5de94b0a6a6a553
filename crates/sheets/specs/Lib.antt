pub mod Page
pub mod Identify
