pub mod Search
pub mod Heads
pub mod Known
pub mod Seen
