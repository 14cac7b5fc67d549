-- What forced positions leave.

pub mod Keeping
