pub mod Key
pub mod Object
pub mod Body
pub mod Pairs
pub mod Store
pub mod Lending
