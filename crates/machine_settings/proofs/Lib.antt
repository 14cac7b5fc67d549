-- The laws of the machine.
pub mod Machine
