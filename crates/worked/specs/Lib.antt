pub mod Worked
pub mod Asked
pub mod Limits
pub mod Spans
pub mod Orders
pub mod Totals
