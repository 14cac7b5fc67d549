-- The laws of the lines of slices, and the proofs of the functions.
pub mod Slices
