pub mod NodeLists
pub mod Link
pub mod Arena
pub mod Walk
