-- The spaces of the first slices.

pub mod Growing
