pub mod Amounts
pub mod AskingHolds
pub mod Holding
