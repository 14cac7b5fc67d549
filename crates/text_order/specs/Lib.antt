-- The order of the lines of a text, and sets of keys.
pub mod Order
pub mod Sets
