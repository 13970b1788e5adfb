pub mod Looks
pub mod Flushes
