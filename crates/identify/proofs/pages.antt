-- The page, as it is written.
mod Writes
