-- The longest window from a start.

pub mod Longest
