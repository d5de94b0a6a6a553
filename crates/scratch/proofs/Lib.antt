-- The laws of `specs/`, for the proofs of this crate and of those above it.
pub mod CallLaws
pub mod MoveLaws
