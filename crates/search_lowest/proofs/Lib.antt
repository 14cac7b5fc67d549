-- The laws of rising blocks.

pub mod Rising
