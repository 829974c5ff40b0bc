pub mod Newness
pub mod Cases
