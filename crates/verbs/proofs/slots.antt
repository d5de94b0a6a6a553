-- `Edits` is of the bytes with a pair between others put in or taken out, `Images` of the parts that the verbs are given and leave.
mod Edits
mod Images
