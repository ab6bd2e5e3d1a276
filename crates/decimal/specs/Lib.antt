pub mod Spelling
pub mod Pushing
