pub mod Answers
pub mod Held
pub mod Numbers
pub mod Positional
pub mod Rows
pub mod Tree
pub mod TreeFalls
pub mod TreeRows
