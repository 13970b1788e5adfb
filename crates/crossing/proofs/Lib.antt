-- The laws of this crate that proofs cite.
pub mod Packs
pub mod Fitting
pub mod Returns
pub mod Entries
