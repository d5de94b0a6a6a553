-- The theorem on walks, over histories.
pub mod Walk
