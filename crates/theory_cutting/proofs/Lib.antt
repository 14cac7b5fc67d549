-- The theorem about the greedy cutting, in steps.
pub mod Reach
pub mod Hops
pub mod Ahead
pub mod Theorem
pub mod Parts
