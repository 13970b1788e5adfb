-- The laws of this crate that proofs cite.
pub mod Decided
pub mod Determined
pub mod Single
pub mod Link
