pub mod InMemory
pub mod Starting
