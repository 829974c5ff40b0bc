pub mod Deeds
pub mod Papers
pub mod Words
pub mod Signs
pub mod Refusals
pub mod Commands
