pub mod Entries
pub mod Enters
