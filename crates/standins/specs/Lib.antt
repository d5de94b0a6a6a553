pub mod Devices
pub mod Demands
pub mod StandIns
