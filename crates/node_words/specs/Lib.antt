pub mod Happening
pub mod Installs
pub mod Payloads
