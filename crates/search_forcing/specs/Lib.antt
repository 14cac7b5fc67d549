-- What a row of a table forces in a space.

pub mod Forcing
