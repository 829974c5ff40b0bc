pub mod Session
pub mod Shown
