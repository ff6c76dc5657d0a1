pub mod EngineLemmas
pub mod KnownOctets
pub mod LineLemmas
pub mod PhaseLemmas
pub mod ScriptLemmas
pub mod ToldLemmas
