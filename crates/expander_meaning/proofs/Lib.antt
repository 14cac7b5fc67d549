-- What expanding gives of states that cover windows; what the seed at a place gives; the search for a stop, slice by slice.
pub mod Agreeing
pub mod Until
pub mod Ending
pub mod Covered
pub mod OneSeed
pub mod Walks
pub mod Places
pub mod LastSeed
pub mod Running
pub mod Inversion
