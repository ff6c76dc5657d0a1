pub mod Legal
pub mod Light
pub mod Least
pub mod OfRun
pub mod Once
pub mod Rising
pub mod Settled
pub mod Views
