pub mod Operation
pub mod Accepted
pub mod Refusal
pub mod Insn
pub mod Listing
pub mod LineReading
