pub mod Faults
mod RefusalLemmas
mod Decided
pub mod ListingNumbers
pub mod ListingFaults
pub mod ListingText
pub mod SamePrograms
pub mod Words
