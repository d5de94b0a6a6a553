-- `Lines` has what is printed, in one line or in two.
mod Lines
