-- The tables of a call.

pub mod Tables
