pub mod Build
pub mod Reply
pub mod PageKey
pub mod Identity
