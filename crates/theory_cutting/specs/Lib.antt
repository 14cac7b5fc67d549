-- Cuttings, the greedy cutting, and what its answer means.
pub mod Cutting
pub mod Greedy
pub mod Meaning
