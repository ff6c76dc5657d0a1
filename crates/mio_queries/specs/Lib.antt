pub mod Memory
pub mod Pumping
pub mod Traffic
