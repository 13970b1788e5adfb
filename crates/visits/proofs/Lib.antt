pub mod Visits
pub mod Skips
