pub mod Over
pub mod Picks
pub mod Newest
pub mod Rows
pub mod Turns
