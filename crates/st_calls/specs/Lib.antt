pub mod Growth
pub mod Does
