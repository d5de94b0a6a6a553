pub mod Histories
pub mod Readings
pub mod StandIns
