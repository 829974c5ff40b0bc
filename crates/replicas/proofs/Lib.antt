pub mod Stepping
pub mod Runs
pub mod Levels
