pub mod Firsts
pub mod Polls
pub mod Orders
pub mod Members
pub mod Shapes
pub mod Keeps
pub mod Bits
