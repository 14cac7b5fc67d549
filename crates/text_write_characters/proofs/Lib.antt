-- The laws of written slices, and the proofs of the functions.
pub mod Characters
