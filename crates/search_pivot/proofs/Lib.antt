-- The laws of the pivot, and the proofs of the functions.
pub mod Pivot
pub mod Taking
