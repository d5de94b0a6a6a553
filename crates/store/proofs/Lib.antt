-- The laws of `specs/`, for the proofs of this crate and of those above it.
pub mod MapLaws
pub mod CountLaws
pub mod NamespaceLaws
pub mod RecordLaws
pub mod PartsLaws
pub mod RankLaws
pub mod SlotLaws
