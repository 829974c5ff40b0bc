pub mod Rows
pub mod Sights
pub mod Told
