-- The laws of the register.
pub mod Causes
pub mod Steps
pub mod Making
