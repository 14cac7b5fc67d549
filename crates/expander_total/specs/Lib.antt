-- The total of a walk over the seeds.
pub mod Tally
