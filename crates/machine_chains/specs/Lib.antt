-- The chains.
pub mod Chains
