pub mod Kept
pub mod Lines
pub mod Turning
pub mod Numbers
