pub mod Taking
pub mod Packets
pub mod Blocks
pub mod Starts
pub mod Moments
pub mod Options
pub mod Passing
