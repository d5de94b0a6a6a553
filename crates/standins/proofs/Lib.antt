-- The demands, and the stand-ins that fall by them.
pub mod Demands
pub mod StandIns
pub mod Members
