pub mod Going
pub mod Stated
