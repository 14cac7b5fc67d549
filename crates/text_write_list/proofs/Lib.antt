-- The length of a seed list, and the proofs of the functions.
pub mod Lengths
