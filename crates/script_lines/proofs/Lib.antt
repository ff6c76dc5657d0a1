pub mod FieldLemmas
pub mod KeyLemmas
pub mod NumberLemmas
pub mod ProgramLemmas
