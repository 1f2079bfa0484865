pub mod Parameters
pub mod Words
pub mod Commands
pub mod Lists
