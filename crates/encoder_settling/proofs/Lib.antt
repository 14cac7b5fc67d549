-- The laws of settling, and the proofs of the functions.
pub mod Settling
