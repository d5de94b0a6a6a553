-- What was built or written is read back, for the proofs of the crates above.
pub mod BuildLaws
pub mod ReplyLaws
pub mod IdentityLaws
