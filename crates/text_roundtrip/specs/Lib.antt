-- From a sheet to its seed list and back to slices.
pub mod RoundTrip
