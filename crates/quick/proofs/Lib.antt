-- The laws of `specs/`, for the proofs of this crate and of those above it.
pub mod SearchLaws
mod ClaimLaws
pub mod HeadLaws
pub mod KnownLaws
mod TagLaws
pub mod SeenLaws
