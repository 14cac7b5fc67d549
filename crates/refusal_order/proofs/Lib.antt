-- The laws of the order of causes.
pub mod Order
