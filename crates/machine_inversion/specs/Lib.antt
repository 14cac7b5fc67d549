-- Inverted chains: test slices as the search sees them.
pub mod Inversion
