-- The encoding of cubes with their stop slice, and what its answer means.
pub mod Cubes
pub mod Meaning
pub mod Limits
pub mod Formed
