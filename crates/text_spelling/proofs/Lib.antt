-- What is read is spelt as it would be written, in steps.
pub mod Numerals
pub mod Slices
pub mod Forms
pub mod Entries
pub mod Order
pub mod Head
