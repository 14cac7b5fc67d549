-- What gathering the windows of a segment gives.
pub mod Gathering
