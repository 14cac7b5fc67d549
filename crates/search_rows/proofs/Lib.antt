-- The laws of rows and clear states, and of the first row that shows the pattern.

pub mod Reading
pub mod First
