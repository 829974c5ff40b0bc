pub mod LittleEndian
pub mod Seals
pub mod Openings
pub mod Readings
pub mod Returns
pub mod Written
pub mod Books
