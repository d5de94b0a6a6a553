-- The empty image.
pub mod Blank
