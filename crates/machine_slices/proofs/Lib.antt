-- The laws of test slices.

pub mod Agreeing
pub mod Paired
pub mod Causes
pub mod Formed
