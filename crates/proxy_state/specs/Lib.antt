pub mod Keeping
pub mod Objects
pub mod Shelved
