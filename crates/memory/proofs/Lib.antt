-- The laws of `specs/`, for the proofs of this crate and of those above it.
pub mod JoinLaws
pub mod LimitLaws
pub mod NameLaws
pub mod ImageLaws
pub mod PlaceLaws
