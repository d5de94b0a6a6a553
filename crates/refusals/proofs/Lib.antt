-- The laws of `specs/`, for the proofs of the crates above.
pub mod Counted
