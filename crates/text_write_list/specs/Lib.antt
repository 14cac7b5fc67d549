-- Seed lists that are written.
pub mod SeedList
