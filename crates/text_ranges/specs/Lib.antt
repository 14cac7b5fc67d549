-- What a line says at a place: its order and its range.
pub mod Ranges
