-- The laws of this crate that proofs cite.
pub mod Upto
