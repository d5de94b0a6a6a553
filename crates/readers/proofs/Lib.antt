-- The theorems on two readers whose calls come in no known order; the other files serve them.
pub mod Commuting
pub mod Swapping
pub mod Mixing
pub mod Marks
mod Pairs
mod Statuses
mod Unseen
mod Answers
mod Left
