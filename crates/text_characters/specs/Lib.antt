-- Slices in lines.
pub mod Characters
