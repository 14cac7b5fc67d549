-- The call for a stop slice, and what its answer means.
pub mod Entry
pub mod Meaning
