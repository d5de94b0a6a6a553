pub mod Pages
pub mod Creations
