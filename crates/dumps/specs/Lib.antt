pub mod Checks
pub mod Results
pub mod Clauses
