pub mod OneWord
pub mod InWords
pub mod Levels
pub mod Lists
pub mod Next
pub mod Kept
