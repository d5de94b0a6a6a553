-- The theorems of request [4].
pub mod Looks
pub mod Examples
