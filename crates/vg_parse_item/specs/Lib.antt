pub mod ReadingRow
pub mod ReadingStatement
pub mod ReadingItem
pub mod ReadingRole
pub mod ReadingBehind
pub mod Reading
pub mod Exact
