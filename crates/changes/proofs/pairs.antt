-- A pair put or erased.
mod Pairs
