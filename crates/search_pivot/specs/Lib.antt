-- The pivot of a mask taken out of a space.
pub mod Pivot
pub mod FirstOdd
