-- The settings of a call, and the machine of register and chains.
pub mod Machine
