pub mod Lines
pub mod Sessions
pub mod DeviceSessions
pub mod Cuts
pub mod Answering
