-- A space that is written.

pub mod Holding
