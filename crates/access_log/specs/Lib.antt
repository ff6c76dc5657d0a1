pub mod Escaped
pub mod Reading
pub mod Month
pub mod Stamp
pub mod Line
pub mod Pieces
