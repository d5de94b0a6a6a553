pub mod Calls
pub mod Unread
