pub mod Refusals
pub mod Telling
pub mod Checks
pub mod Acting
pub mod Sizes
pub mod Dispatch
pub mod RowNames
