-- Numbers that are written, and their lines.
pub mod Numerals
pub mod Lines
