pub mod Text
pub mod Span
pub mod Turn
