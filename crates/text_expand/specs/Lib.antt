-- The reply to what a seed list says.
pub mod List
