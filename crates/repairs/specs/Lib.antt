pub mod Repairs
pub mod Steps
pub mod Clauses
