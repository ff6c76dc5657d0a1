pub mod Aim
pub mod Frame
pub mod Finding
pub mod Tally
pub mod File
pub mod Contrast
pub mod Comparison
