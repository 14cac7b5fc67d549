-- The laws of the words of a leaf.

pub mod Words
