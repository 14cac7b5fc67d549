-- The order of causes.
pub mod Order
