-- The states that are quiet.

pub mod Quiet
