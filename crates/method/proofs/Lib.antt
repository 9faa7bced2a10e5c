pub mod Three
pub mod Same
pub mod Made
pub mod ReadRows
