pub mod Replica
pub mod Steps
