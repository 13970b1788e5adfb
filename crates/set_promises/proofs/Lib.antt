pub mod Uses
pub mod Held
pub mod LinesUsed
pub mod Victims
pub mod LastUses
pub mod InStep
pub mod Editions
pub mod SetExamples
