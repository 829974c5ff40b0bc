pub mod Draws
pub mod Settings
pub mod Sums
pub mod Words
