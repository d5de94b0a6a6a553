-- The bytes printed are those that Retrieve and List put into the data buffer.
pub mod HandedLaws
