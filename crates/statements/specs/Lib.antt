pub mod Texts
pub mod Statement
pub mod Refusals
pub mod Stated
