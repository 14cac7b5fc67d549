-- The laws of the closing stop.

pub mod Closing
