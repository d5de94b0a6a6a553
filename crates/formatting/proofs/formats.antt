-- What formatting answers.
mod Done
