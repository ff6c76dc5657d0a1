pub mod Poll
pub mod Choice
pub mod Best
pub mod Kept
