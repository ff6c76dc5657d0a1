pub mod Item
pub mod ScriptLine
pub mod Words
