-- What is seen of a seed in the slices that are looked at, and the proofs of the functions.
pub mod Looking
pub mod Told
