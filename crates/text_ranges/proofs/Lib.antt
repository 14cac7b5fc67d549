-- The laws of what a line says at a place, and the proofs of the functions.
pub mod Ranging
pub mod Accepting
pub mod Keys
