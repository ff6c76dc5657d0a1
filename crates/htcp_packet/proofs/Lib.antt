pub mod Texts
pub mod Whole
pub mod Agreed
pub mod Limits
pub mod Written
pub mod Judged
pub mod Lengths
