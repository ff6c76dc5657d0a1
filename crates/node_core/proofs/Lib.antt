pub mod Runs
pub mod Senders
pub mod Swaps
