pub mod Ranges
pub mod Places
pub mod Premises
pub mod Bounds
