pub mod Maps
pub mod Namespace
pub mod Records
pub mod Parts
pub mod Finds
pub mod Slots
