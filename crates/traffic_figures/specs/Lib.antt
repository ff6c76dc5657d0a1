pub mod Buckets
pub mod Escapes
pub mod Kinds
pub mod Replies
pub mod StatusClass
