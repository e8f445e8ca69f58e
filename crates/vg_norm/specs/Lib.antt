pub mod Normal
pub mod NormalTree
pub mod Width
pub mod Growing
pub mod Images
