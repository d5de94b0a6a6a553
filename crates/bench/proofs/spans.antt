-- `Loop` has the invariant of the loop over a page's entries.
mod Loop
