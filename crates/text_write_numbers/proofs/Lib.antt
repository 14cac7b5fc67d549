-- The laws of written numbers and their lines, and the proofs of the functions.
pub mod Digits
pub mod Lines
