-- The loop that writes a page.
mod Loop
