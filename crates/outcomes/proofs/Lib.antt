-- One outcome for each contract.
mod Refused
pub mod Unique
pub mod UniqueBelow
