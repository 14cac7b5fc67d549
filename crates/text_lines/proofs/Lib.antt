-- The laws of what a line says, and the proofs of the functions.
pub mod Values
