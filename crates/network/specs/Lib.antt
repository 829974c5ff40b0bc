pub mod Said
pub mod Refused
pub mod Page
pub mod Declined
pub mod Room
pub mod Rooms
pub mod Statements
