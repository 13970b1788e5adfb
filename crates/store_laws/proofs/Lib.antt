-- From the bottom up: what a store that stands for a flat memory is, its bytes and records, each step, a visit of all records, and what valid records are.
pub mod Sim
pub mod Bytes
pub mod Zeroed
pub mod Held
pub mod Steps
pub mod Sweeps
pub mod Leaving
pub mod Valid
