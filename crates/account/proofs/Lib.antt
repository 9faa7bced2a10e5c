pub mod Spans
pub mod Calls
pub mod Rows
pub mod Corrections
pub mod Lines
pub mod Narrowed
