-- Test slices and stop slices.
pub mod Slices
