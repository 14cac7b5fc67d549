-- The laws of the first clear member of a leaf.

pub mod Sifting
