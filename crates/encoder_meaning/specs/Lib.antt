-- The encoding of a set with its stop slice, and what its answer means.
pub mod Encoding
pub mod Meaning
pub mod Limits
pub mod Inversion
