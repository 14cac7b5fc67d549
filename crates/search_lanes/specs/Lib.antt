-- Words that hold one bit for each of 64 members.

pub mod Lanes
