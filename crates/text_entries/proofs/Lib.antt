-- The laws of the list that keeps the entries, and the proofs of the functions.
pub mod Keeping
pub mod Picking
pub mod Kept
pub mod Filling
