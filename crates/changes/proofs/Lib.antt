-- What a change does to the bytes.
mod ChangeLaws
