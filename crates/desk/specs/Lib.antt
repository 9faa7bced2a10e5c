pub mod Faults
pub mod Calls
pub mod Called
pub mod Lawful
