-- A value handed over and keys listed.
mod Handed
