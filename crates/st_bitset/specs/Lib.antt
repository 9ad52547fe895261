pub mod BitSet
pub mod Words
