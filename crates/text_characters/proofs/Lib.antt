-- The laws of slices in lines, and the proofs of the functions.
pub mod Slices
