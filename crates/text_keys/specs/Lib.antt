-- Lines as bytes, and the keys.
pub mod Bytes
pub mod Keys
