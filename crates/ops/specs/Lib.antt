pub mod Doc
pub mod Version
pub mod Layout
pub mod Values
pub mod Log
pub mod Operations
