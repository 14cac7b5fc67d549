-- What the words of a leaf rule out.

pub mod Excluding
