pub mod Ahead
pub mod Fault
pub mod Printed
pub mod Script
pub mod Told
pub mod Written
