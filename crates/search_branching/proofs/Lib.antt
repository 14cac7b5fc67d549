-- The laws of branches.

pub mod Branching
