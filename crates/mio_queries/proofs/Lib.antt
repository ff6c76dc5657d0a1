pub mod MemoryLemmas
pub mod PumpLemmas
