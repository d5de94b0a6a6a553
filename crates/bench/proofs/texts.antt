-- `Line` has the length of a line, and the invariant of the loop that writes one.
pub mod Line
