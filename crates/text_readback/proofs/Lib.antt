-- The seed list that is written is read back, in steps.
pub mod Numerals
pub mod Slices
pub mod Splitting
pub mod Forms
pub mod Lines
pub mod Runs
pub mod Picked
pub mod Chains
pub mod Heads
pub mod Whole
pub mod Said
