pub mod Ethernet
pub mod FilterText
pub mod Shown
