pub mod CopyTasks
pub mod Copying
pub mod Deep
pub mod Moving
pub mod Places
pub mod Utilities
