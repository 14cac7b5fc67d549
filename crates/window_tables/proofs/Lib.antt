-- The laws of the tables.

pub mod Chosen
pub mod Tables
