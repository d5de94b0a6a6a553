-- The theorems on two farms in one memory.
pub mod Stands
pub mod Examples
pub mod Isolation
pub mod Hosts
pub mod Shared
