-- The answer for the windows that were gathered.
pub mod Settling
