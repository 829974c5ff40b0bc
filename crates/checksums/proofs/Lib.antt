pub mod CrcBits
pub mod CrcTable
pub mod CrcByte
pub mod CrcFold
pub mod CrcSize
