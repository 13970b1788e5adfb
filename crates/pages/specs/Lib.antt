pub mod Pages
pub mod Scans
