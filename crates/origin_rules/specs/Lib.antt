pub mod Chosen
pub mod Origins
pub mod OriginsSix
