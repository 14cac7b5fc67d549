-- The laws of inverted chains.
pub mod Flipping
pub mod Inversion
