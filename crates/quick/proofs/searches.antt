-- The invariant of the search, and the words of a record.
mod Going
mod Words
