-- The lines of a text before a key, and what those of a seed list say.
pub mod Before
pub mod Written
