-- What the check answers: of one half, and of both.
mod Halves
mod Both
