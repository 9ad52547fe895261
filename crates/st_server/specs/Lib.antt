pub mod PoolReplies
pub mod Serving
