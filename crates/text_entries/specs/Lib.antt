-- What the lines of a text say, and the list of numbers that keeps it.
pub mod Said
pub mod Flat
