pub mod Layout
pub mod Addresses
pub mod Entries
