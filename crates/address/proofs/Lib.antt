pub mod Regions
pub mod Tests
pub mod Entries
