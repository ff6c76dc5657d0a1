pub mod Clean
pub mod CleanAddress
pub mod Places
pub mod CleanLine
pub mod Shape
