-- The laws of the table, and the proofs of the functions.
pub mod Table
