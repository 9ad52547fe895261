pub mod Touching
pub mod Covering
pub mod Switching
pub mod RowsRead
pub mod SiteTables
pub mod LookupCaches
pub mod ValidCaches
pub mod Moves
