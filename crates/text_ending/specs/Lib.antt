-- How the reading of a text ends.
pub mod Ending
