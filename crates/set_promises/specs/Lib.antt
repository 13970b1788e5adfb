pub mod LastUses
pub mod Uses
pub mod Editions
pub mod SetExamples
