pub mod Datagram
pub mod Cut
pub mod Filters
pub mod Judged
pub mod Senders
pub mod Verdict
