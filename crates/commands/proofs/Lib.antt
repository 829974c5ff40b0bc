mod Spaces
pub mod Splits
mod Digits
mod Signs
mod Says
pub mod Bytes
pub mod Ends
pub mod Decimals
pub mod Behind
pub mod Again
