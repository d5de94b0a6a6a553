pub mod Orders
pub mod Mixing
pub mod Marks
