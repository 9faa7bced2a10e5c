pub mod Making
pub mod Limits
pub mod Meaning
pub mod Meant
pub mod Hotel
