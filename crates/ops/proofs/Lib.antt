pub mod Members
pub mod Ids
pub mod Stores
pub mod Slots
pub mod Grown
pub mod Scans
pub mod Frames
pub mod Highest
