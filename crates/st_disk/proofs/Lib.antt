pub mod LoadedAnew
