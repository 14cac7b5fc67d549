-- What the words of a leaf tell.

pub mod Columns
