pub mod Answers
pub mod DescriptorTable
pub mod Laws
pub mod Redirects
pub mod Stages
