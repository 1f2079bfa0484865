pub mod Forms
pub mod Numbers
pub mod Opts
pub mod Tables
pub mod Usage
pub mod Words
