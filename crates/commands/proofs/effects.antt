-- What each command may ask of the memory, and leaves.
mod Effects
