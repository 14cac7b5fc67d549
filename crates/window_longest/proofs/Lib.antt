-- The laws of a part that is cut off.

pub mod Parts
