pub mod Bits
pub mod Lengths
