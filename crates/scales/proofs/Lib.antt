-- The theorems of request [8]; the other files serve them.
pub mod Readings
mod ByteLaws
mod Ways
mod Cases
mod Examples
