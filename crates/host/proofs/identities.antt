-- The reader of Identify pages.
mod Limits
