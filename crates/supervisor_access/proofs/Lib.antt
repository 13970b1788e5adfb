pub mod Plans
pub mod Supervisors
