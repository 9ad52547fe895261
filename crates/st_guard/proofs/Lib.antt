pub mod Covering
pub mod ChainWalks
pub mod Numbering
pub mod Validity
pub mod LaterEdits
