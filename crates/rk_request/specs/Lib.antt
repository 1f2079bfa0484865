pub mod Asked
pub mod CommandLine
pub mod Decimal
pub mod Forms
