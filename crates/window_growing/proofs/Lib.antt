-- The laws of the spaces of the first slices.

pub mod Growing
