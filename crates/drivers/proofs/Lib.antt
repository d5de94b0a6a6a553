-- The theorems of request [2].
pub mod Pages
pub mod Creations
pub mod Examples
mod Frames
