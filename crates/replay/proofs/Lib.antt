pub mod Records
pub mod Comparing
