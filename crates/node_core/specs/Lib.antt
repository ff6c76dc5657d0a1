pub mod Counters
pub mod Kept
pub mod Raised
pub mod Run
pub mod State
pub mod Swaps
pub use Rattle.node_words.specs.Happening
