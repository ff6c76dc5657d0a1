pub mod Texts
pub mod Headers
pub mod MessageOf
pub mod Faults
