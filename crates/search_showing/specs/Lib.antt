-- How the members of a space show a row.

pub mod Showing
