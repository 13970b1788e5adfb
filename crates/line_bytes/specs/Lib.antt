pub mod Bytes
pub mod Premises
