-- The theorems on single calls and any memory; the other files serve them.
pub mod Refusals
pub mod Unread
pub mod OnlyAnswers
pub mod Past
mod AlikeLaws
mod PastLooks
