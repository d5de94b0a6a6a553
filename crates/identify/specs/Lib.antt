pub mod Identify
