-- The spare pattern of a set.
pub mod Spare
