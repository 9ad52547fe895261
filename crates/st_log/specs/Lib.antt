pub mod Device
pub mod Lines
pub mod Logs
pub mod Memory
pub mod Past
