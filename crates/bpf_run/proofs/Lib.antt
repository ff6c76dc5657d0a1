pub mod Chains
pub mod Accepts
pub mod EachEnds
pub mod Given
pub mod Kept
pub mod WholeRun
