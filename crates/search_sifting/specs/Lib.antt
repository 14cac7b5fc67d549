-- The first clear member of a group.

pub mod Clear
