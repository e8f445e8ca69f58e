pub mod Form
pub mod Shape
pub mod Description
pub mod Finding
pub mod Declaration
pub mod Given
