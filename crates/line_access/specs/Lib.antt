pub mod LineAccess
