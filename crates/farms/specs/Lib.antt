pub mod Sides
pub mod Alone
pub mod Hosts
pub mod Shared
