pub mod Visits
pub mod Walks
pub mod Lent
