pub mod Chains
pub mod Seats
