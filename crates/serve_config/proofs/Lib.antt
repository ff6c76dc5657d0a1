pub mod Listed
pub mod Members
pub mod Methods
pub mod Shown
