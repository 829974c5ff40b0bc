pub mod Rooms
pub mod Meetings
pub mod Play
pub mod Looks
pub mod Two
