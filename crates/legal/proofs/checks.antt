-- `Pass` is of the pass over the records, `Turns` of the loop that makes it, and `Answers` has one law for each way out of `check_part`.
mod Pass
mod Turns
mod Answers
