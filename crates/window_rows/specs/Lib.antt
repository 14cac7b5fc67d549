-- The states that meet slices, and what is left of a space.

pub mod Meeting
pub mod Narrowing
pub mod Most
