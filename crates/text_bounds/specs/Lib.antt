-- How many lines and bytes a text can have.
pub mod Bounds
