-- The laws of `specs/`, for the proofs of this crate and of those above it.
pub mod PartLaws
pub mod NumberLaws
pub mod ZeroLaws
pub mod TestLaws
