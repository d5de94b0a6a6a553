-- The theorems: over histories, and of host and module together; the other files serve them.
pub mod History
pub mod Images
pub mod Retrieve
pub mod StoreAgain
mod RoomAgain
mod Corrected
pub mod Answers
pub mod Room
pub mod NeverStored
pub mod Agreement
pub mod RequestLaws
pub mod ShownLaws
pub mod AnyMemory
pub mod Bits
pub mod Examples
