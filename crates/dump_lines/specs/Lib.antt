pub mod Lines
pub mod Tests
pub mod Dumped
