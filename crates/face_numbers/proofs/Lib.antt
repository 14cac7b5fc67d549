-- The laws of the calls for a step and for a slice, and the proofs of the functions.
pub mod Found
