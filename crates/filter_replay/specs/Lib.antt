pub mod Moment
pub mod Part
pub mod Line
pub mod Taking
pub mod Answer
pub mod Tally
