-- The laws of the outcome, and the proofs of the functions.
pub mod Outcomes
