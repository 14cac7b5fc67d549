-- The length of a refusal, and the proofs of the functions.
pub mod Lengths
