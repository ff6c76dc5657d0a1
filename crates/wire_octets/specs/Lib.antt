pub mod Decimal
pub mod Octets
