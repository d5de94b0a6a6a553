-- The laws of `specs/`, for the proofs of this crate and of those above it.
pub mod OrderLaws
pub mod WideLaws
pub mod ClearLaws
