-- The starred examples of document 01.
pub mod Reading
pub mod Table
