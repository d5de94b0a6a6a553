-- The records as arrays, and the slot that divides them.
mod Rows
