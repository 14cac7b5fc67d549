-- The law of what a program does, and the proofs of the functions.
pub mod Answered
