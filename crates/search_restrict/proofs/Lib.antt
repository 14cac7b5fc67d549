-- The laws of a space under an equation, and the proofs of the functions.
pub mod Restricting
