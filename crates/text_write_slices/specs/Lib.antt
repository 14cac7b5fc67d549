-- The slices that expanding gives, as they are written.
pub mod Slices
