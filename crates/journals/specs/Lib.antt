pub mod Bytes
pub mod Book
pub mod Statements
