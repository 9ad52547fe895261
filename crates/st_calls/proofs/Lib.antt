pub mod GoingThen
pub mod Growing
pub mod Doing
pub mod DoingMoves
