-- The choice of a step, as the code makes it.
pub mod Choosing
