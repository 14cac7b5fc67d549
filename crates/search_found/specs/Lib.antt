-- The lowest clear state of a space, and the lower of two that were found.

pub mod Search
pub mod Lower
