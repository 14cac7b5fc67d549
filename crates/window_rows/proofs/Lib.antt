-- The laws of what is left of a space, and of meeting slices.

pub mod Narrowing
pub mod States
pub mod Meeting
pub mod Fitting
