-- What the steps see.
mod Seen
