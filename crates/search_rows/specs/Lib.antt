-- Rows of masks: which states show a pattern in no row; the first row that shows it; and the words of a leaf.

pub mod Rows
pub mod First
pub mod Leaf
