-- The laws of numbers in lines, and the proofs of the functions.
pub mod Numerals
