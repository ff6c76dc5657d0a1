pub mod Judged
pub mod Methods
