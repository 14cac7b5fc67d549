-- Slices that are written, and their lines.
pub mod Characters
