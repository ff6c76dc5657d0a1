pub mod Octets
pub mod Pieces
