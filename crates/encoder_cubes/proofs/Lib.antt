-- The laws of the encoding of cubes, and the proofs of the functions.
pub mod Formed
pub mod Cubes
pub mod Limits
