pub mod Lent
pub mod Link
pub mod Clauses
pub mod Checks
