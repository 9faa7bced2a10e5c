pub mod Pages
pub mod Session
pub mod Year
pub mod YearRows
