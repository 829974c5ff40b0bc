pub mod Bytes
pub mod Records
pub mod Letter
pub mod RoundTrip
pub mod Parsed
